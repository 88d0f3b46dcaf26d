pub mod Written
pub mod Alike
pub mod Standing
pub mod Covering
pub mod Free
pub mod Freely
pub mod Laws
pub mod Worked
