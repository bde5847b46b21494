-- What the helpers of Append many ask and leave.
pub mod Known
pub mod Tests
