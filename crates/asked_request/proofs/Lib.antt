pub mod Fronts
pub mod KeptRequests
pub mod Promises
