-- What the helpers of Append ask and leave.
pub mod Known
pub mod Tests
