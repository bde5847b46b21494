-- What a rack is, the whole outcome of reading one, and what is tested on the way.
pub mod Racks
pub mod Promise
pub mod Tests
