pub mod Quiet
pub mod Steady
pub mod Closing
pub mod Starting
pub mod Placing
pub mod Declaring
