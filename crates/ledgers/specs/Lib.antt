-- What the helpers of the calls on ledgers ask and leave.
pub mod Known
pub mod Tests
