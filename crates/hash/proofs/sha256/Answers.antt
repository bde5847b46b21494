use Rattle.std.proofs.Common.{length, arith, le-leb}
use borrow.Author.Tests.{lt-leb}
use Rattle.hash.specs.Promise.{longest, hashing}
use Rattle.hash.proofs.sha256.Goals as goal

pub returns-then-message-gt-LONGEST : goal.returns-then-message-gt-LONGEST
unfolding hashing
returns-then-message-gt-LONGEST c = rw (lt-leb (length c.args.message.now) longest (omega arith))

pub returns : goal.returns
unfolding hashing
returns c = rw (le-leb _ _ c.if-message-gt-LONGEST.false) (cc)
