pub mod Crashes
pub mod Disks
pub mod Events
pub mod Following
pub mod RisingNumbers
pub mod Lists
pub mod Refusing
pub mod Whole
