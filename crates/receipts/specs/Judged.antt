-- The judging of a receipt. 02, M-103: "judged under the nearest undamaged rack before it, and refused if there is none". The desk's own rule judges: the identity
-- that it retains is the receipt's field, and the empty string, which stands where there is no rack before, is no rack.
use Rattle.std.specs.Prelude.{List, ℕ}
use Rattle.desk.specs.declared.Finding.{Finding}
use Rattle.desk.specs.Verdict.{Question, judging}
use Rattle.receipts.specs.Block.{asked_in, label_in, nonce_in, identity_in, statement_in, signers_in}

-- what a receipt asks of a rack
unfoldable pub question : List ℕ → List ℕ → Question
question rack b = record { identity = identity_in b; rack = rack; asked = asked_in b; label = label_in b; nonce = nonce_in b }

unfoldable pub finding : List ℕ → List ℕ → Finding
finding rack b = judging (question rack b) (statement_in b) (signers_in b)
