-- The maker of handover bundles of document 02, M-106: the new roll, the digests that lead to it, and the call.
pub mod Rolls
pub mod Lists
pub mod Making
