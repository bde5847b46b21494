-- What the proof knows of a call: each accepted one founds, prepares, notes, closes or activates, and any other changes nothing; an accepted verdict is vouched for. The proof of safety speaks of these views and of no rule. Assumes nothing.
use mathlib.Core.Path.{◌≡◌}
use mathlib.Core.List.{List, [], ◌∷◌}
use Prim.Native.Nat.{ℕ, suc, ◌≤◌, ◌<◌}
use Rattle.rack.specs.Racks.{rack_cut, rack_string, rack_digest, majority}
use Rattle.std.specs.Prelude.{Result, Ok, Err}
use Rattle.rows.specs.Row.{tail_of, height_of}
use Rattle.rows.specs.Search.{find}
use Rattle.rows.specs.Digests.{roll_string, roll_digest}
use Rattle.roll.specs.Roll.{Roll}
use Rattle.statement.specs.declared.Kind.{Kind}
use Rattle.statement.specs.declared.Kind.TheVariants.{New, Append, Read, Finalise, Initialise}
use Rattle.statement.specs.declared.Statement.{Statement}
use Rattle.statement.specs.Cut.{no_digest, no_label}
use Rattle.rules.specs.Record.{blank, prepared, active, finalised}
use Rattle.desk.specs.Verdict.{height_in}
use Rattle.safety.specs.Calls.{Keeper}
use Rattle.safety.specs.Histories.{◌∈◌}
use Rattle.safety.specs.Histories as histories
use Rattle.safety.specs.Chip.{key_at}

-- a keeper's roll, and the string that a roll's digest is taken of
abbrev pub roll_in : Keeper → Roll
roll_in k = record { count = k.head.count; rows = k.table }

abbrev pub string_of : Roll → List ℕ
string_of v = roll_string v.count v.rows

-- what a roll shows of a label
pub data Seen : Type 0 where
  nothing : Seen
  standing : (height : ℕ) (tail : List ℕ) → Seen

unfoldable pub seen_at : List ℕ → Result ℕ ℕ → Seen
seen_at rows (Ok i) = standing (height_of rows i) (tail_of rows i)
seen_at rows (Err k) = nothing

unfoldable pub look : Roll → List ℕ → Seen
look v label = seen_at v.rows (find v.count v.rows label)

-- a roll shows a label at a height or above, and at that height with that tail
pub record Reaches (v : Roll) (label : List ℕ) (height : ℕ) (tail : List ℕ) : Type 0 where
  pub top : ℕ
  pub last : List ℕ
  pub shows : look v label ≡ standing top last
  pub up : height ≤ top
  pub agrees : height ≡ top → tail ≡ last

-- every row of one roll is reached in another
pub record Grows (v w : Roll) : Type 0 where
  pub reaches : (label : List ℕ) (height : ℕ) (tail : List ℕ) → look v label ≡ standing height tail → Reaches w label height tail

-- more than half of a rack's keys
pub record Most (rack : List ℕ) (P : List ℕ → Type 0) : Type 0 where
  pub count : ℕ
  pub position : ℕ → ℕ
  pub enough : majority (rack_cut rack).count ≤ count
  pub below : (i : ℕ) → i < count → position i < (rack_cut rack).count
  pub rising : (i : ℕ) → suc i < count → position i < position (suc i)
  pub each_one : (i : ℕ) → i < count → P (key_at rack (position i))

-- the statements, taken apart, that calls return for signing
abbrev pub enter_of : List ℕ → List ℕ → List ℕ → List ℕ → Statement
enter_of identity previous own roll =
    record { kind = Initialise; identity = identity; own = own; label = no_label; tail = no_digest; other = previous; roll = roll }

abbrev pub leave_of : List ℕ → List ℕ → List ℕ → List ℕ → Statement
leave_of identity own next roll =
    record { kind = Finalise; identity = identity; own = own; label = no_label; tail = no_digest; other = next; roll = roll }

abbrev pub roll_name : Roll → List ℕ
roll_name v = roll_digest v.count v.rows

-- new, append or read
pub data Receipt : Kind → Type 0 where
  of_new : Receipt New
  of_append : {height : ℕ} → Receipt (Append height)
  of_read : {height high low : ℕ} → Receipt (Read height high low)

-- what stays of a head while a keeper is in office
pub record SameOffice (k k' : Keeper) : Type 0 where
  pub identity : k'.head.identity ≡ k.head.identity
  pub own : k'.head.own ≡ k.head.own
  pub previous : k'.head.previous ≡ k.head.previous

-- a statement shows the row of its label as it stands
pub record Notes (k : Keeper) (v : Statement) : Type 0 where
  pub receipt : Receipt v.kind
  pub identity : v.identity ≡ k.head.identity
  pub own : v.own ≡ k.head.own
  pub shows : look (roll_in k) v.label ≡ standing (height_in v.kind) v.tail

-- a rack is founded
pub record Founding (k k' : Keeper) (said : List Statement) : Type 0 where
  pub was : k.head.status ≡ blank
  pub is : k'.head.status ≡ active
  pub founds : k'.head.own ≡ k'.head.identity
  pub first : k'.head.previous ≡ no_digest
  pub says : said ≡ enter_of k'.head.identity k'.head.previous k'.head.own (roll_name (roll_in k')) ∷ []

-- a keeper is prepared to take over
pub record Preparing (k k' : Keeper) (said : List Statement) : Type 0 where
  pub was : k.head.status ≡ blank
  pub is : k'.head.status ≡ prepared
  pub says : said ≡ enter_of k'.head.identity k'.head.previous k'.head.own (roll_name (roll_in k')) ∷ []

-- rows are added, moved on or read, and what is signed shows them
pub record Noting (k k' : Keeper) (said : List Statement) : Type 0 where
  pub was : k.head.status ≡ active
  pub is : k'.head.status ≡ active
  pub stays : SameOffice k k'
  pub grows : Grows (roll_in k) (roll_in k')
  pub notes : (v : Statement) → v ∈ said → Notes k' v

-- the keeper hands over; `Hashes s` says that a string is hashed in this very call
pub record Closing (Hashes : List ℕ → Type 0) (k k' : Keeper) (said : List Statement) : Type 0 where
  pub was : k.head.status ≡ active
  pub is : k'.head.status ≡ finalised
  pub stays : SameOffice k k'
  pub roll_stays : roll_in k' ≡ roll_in k
  pub roll_hashed : Hashes (string_of (roll_in k))
  pub says : said ≡ leave_of k.head.identity k.head.own k'.head.next (roll_name (roll_in k)) ∷ []

-- one of the old keepers that an activation rests on: what it signed, and that its rows are reached
pub record Handed (Hashes : List ℕ → Type 0) (Said : List ℕ → Statement → Type 0) (k : Keeper) (key : List ℕ) : Type 0 where
  pub roll : Roll
  pub hashed : Hashes (string_of roll)
  pub said : Said key (leave_of k.head.identity k.head.previous k.head.own (roll_name roll))
  pub grew : Grows roll (roll_in k)

-- a prepared keeper takes over; `Said key v` says that the key's keeper had returned v for signing
pub record Activating (Hashes : List ℕ → Type 0) (Said : List ℕ → Statement → Type 0) (k k' : Keeper) (said : List Statement) : Type 0 where
  pub was : k.head.status ≡ prepared
  pub is : k'.head.status ≡ active
  pub stays : SameOffice k k'
  pub roll_stays : roll_in k' ≡ roll_in k
  pub says : said ≡ []
  pub old : List ℕ
  pub old_is : k.head.previous ≡ rack_digest old
  pub old_hashed : Hashes (rack_string old)
  pub own : List ℕ
  pub own_is : k.head.own ≡ rack_digest own
  pub own_hashed : Hashes (rack_string own)
  pub handed : Most old (Handed Hashes Said k)
  pub entered : Most own (λ key. Said key (enter_of k.head.identity k.head.previous k.head.own (roll_name (roll_in k))))

-- nothing changes, and nothing is said
pub record Idle (k k' : Keeper) (said : List Statement) : Type 0 where
  pub same_head : k'.head ≡ k.head
  pub same_table : k'.table ≡ k.table
  pub says : said ≡ []

pub record Waking (k' : Keeper) (said : List Statement) : Type 0 where
  pub is : k'.head.status ≡ blank
  pub says : said ≡ []

pub data View (Hashes : List ℕ → Type 0) (Said : List ℕ → Statement → Type 0) (k k' : Keeper) (said : List Statement) : Type 0 where
  founds : Founding k k' said → View Hashes Said k k' said
  prepares : Preparing k k' said → View Hashes Said k k' said
  notes : Noting k k' said → View Hashes Said k k' said
  closes : Closing Hashes k k' said → View Hashes Said k k' said
  activates : Activating Hashes Said k k' said → View Hashes Said k k' said
  idles : Idle k k' said → View Hashes Said k k' said

-- an accepted verdict rests on more than half of a rack, which said what it shows
pub record Vouched (Hashes : List ℕ → Type 0) (Said : List ℕ → Statement → Type 0) (v : Statement) : Type 0 where
  pub receipt : Receipt v.kind
  pub rack : List ℕ
  pub rack_is : v.own ≡ rack_digest rack
  pub rack_hashed : Hashes (rack_string rack)
  pub vouches : Most rack (λ key. Said key v)
