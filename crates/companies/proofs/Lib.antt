-- The proof that two companies do not see each other's calls, and that New keeps each to its share.
pub mod Orders
pub mod Places
pub mod WidenedFits
pub mod Those
pub mod CompanyRows
pub mod Shown
pub mod CompanyMoved
pub mod CompanyWidened
pub mod Left
pub mod Alike
pub mod Told
pub mod OwnAppends
pub mod OwnNew
pub mod OtherCalls
pub mod Theorem
pub mod Limit
