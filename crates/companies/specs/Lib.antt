-- What M-108 says of two companies that share a keeper: the calls that each makes, runs of such calls, that a run shows each company its own calls alone, and
-- how many rows New gives to each.
pub mod Calls
pub mod Runs
pub mod Isolation
pub mod Limit
