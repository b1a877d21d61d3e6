pub mod Refusals
pub mod Returned
pub mod BookRefusals
pub mod ListingRefusals
pub mod Results
pub mod NothingLost
pub mod Examples
