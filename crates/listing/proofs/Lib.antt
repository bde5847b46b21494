-- Laws of what the store answers and of rows that are led.
pub mod Answered
pub mod Led
