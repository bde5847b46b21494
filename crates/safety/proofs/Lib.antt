-- The proof of demand 3.
-- what the proof goes by
pub mod Views
pub mod Tales
-- how calls end, what a keeper holds, and what its rolls show
pub mod Members
pub mod Ended
pub mod Sizes
pub mod RowsWidened
pub mod Looks
pub mod LooksChanged
pub mod Derives
pub mod Receipts
pub mod Vows
-- each call and the verdict as a view, from its rule
pub mod SeenInitialise
pub mod SeenNew
pub mod SeenAppend
pub mod SeenAppendMany
pub mod SeenRead
pub mod SeenFinalise
pub mod SeenActivate
pub mod SeenIdle
pub mod SeenVerdict
-- a lawful history is told by its views
pub mod Kept
pub mod Bridge
-- what follows from a tale alone
pub mod Quorums
pub mod Sights
pub mod Offices
pub mod Turns
pub mod Keepers
pub mod Handovers
pub mod Covered
pub mod Safe
-- demand 3
pub mod Theorem
