-- The answers of every call, as the contracts name them: 0 on acceptance, otherwise the refusal's number in document 01's table, with the meaning given there.
use Rattle.std.specs.Prelude.{ℕ}
pub mod Order
pub mod Refused

-- the call is accepted
abbrev pub accepted : ℕ
accepted = 0

-- output area shorter than the number above
abbrev pub area_too_short : ℕ
area_too_short = 1

-- record not sound
abbrev pub record_not_sound : ℕ
record_not_sound = 2

-- status is not blank
abbrev pub not_blank : ℕ
not_blank = 3

-- not active
abbrev pub not_active : ℕ
not_active = 4

-- not prepared
abbrev pub not_prepared : ℕ
not_prepared = 5

-- rack breaks the layout
abbrev pub rack_broken : ℕ
rack_broken = 6

-- own key not in own rack
abbrev pub key_not_in_rack : ℕ
key_not_in_rack = 7

-- roll without previous rack, or the reverse
abbrev pub roll_or_rack_alone : ℕ
roll_or_rack_alone = 8

-- ledger exists
abbrev pub ledger_exists : ℕ
ledger_exists = 9

-- no such ledger
abbrev pub no_such_ledger : ℕ
no_such_ledger = 10

-- out of order; the present height is given
abbrev pub out_of_order : ℕ
out_of_order = 11

-- height is 4,294,967,295
abbrev pub height_at_top : ℕ
height_at_top = 12

-- 63 ledgers already
abbrev pub table_full : ℕ
table_full = 13

-- label all zero
abbrev pub label_zero : ℕ
label_zero = 14

-- roll breaks the layout
abbrev pub roll_broken : ℕ
roll_broken = 15

-- fewer entries than a majority
abbrev pub too_few : ℕ
too_few = 16

-- not attested
abbrev pub not_attested : ℕ
not_attested = 17

-- finalise or receipt signature not valid
abbrev pub signature_not_valid : ℕ
signature_not_valid = 18

-- initialise signature not valid
abbrev pub initialise_not_valid : ℕ
initialise_not_valid = 19

-- roll not derived
abbrev pub not_derived : ℕ
not_derived = 20

-- rack digest differs from the record's
abbrev pub digest_differs : ℕ
digest_differs = 21

-- bundle or signer list breaks the layout
abbrev pub list_broken : ℕ
list_broken = 22

-- statement is not the one asked for: length, layout, kind, identity, rack digest or label
abbrev pub statement_not_asked : ℕ
statement_not_asked = 23

-- nonce differs
abbrev pub nonce_differs : ℕ
nonce_differs = 24

-- hash input over 65,536 bytes
abbrev pub input_too_long : ℕ
input_too_long = 25

-- list of 0 or more than 32
abbrev pub list_of_wrong_length : ℕ
list_of_wrong_length = 32

-- text over 418 bytes
abbrev pub text_too_long : ℕ
text_too_long = 33

-- every block of the store is used
abbrev pub store_full : ℕ
store_full = 34

-- no undamaged block answers, and the store holds a damaged one
abbrev pub block_damaged : ℕ
block_damaged = 35

-- the store's read refuses a needed entry, two highest rows differ, or the digests do not lead to the highest tail
abbrev pub not_leading : ℕ
not_leading = 36

-- the roll passes 63 rows, a count 64 or the bundle its length
abbrev pub bundle_too_large : ℕ
bundle_too_large = 37

-- rack of two
abbrev pub rack_of_two : ℕ
rack_of_two = 38

-- company with 31 rows or more
abbrev pub company_full : ℕ
company_full = 39
