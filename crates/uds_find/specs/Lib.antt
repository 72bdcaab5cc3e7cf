pub mod Mention
pub mod Credit
pub mod Functional
pub mod Asking
pub mod Tester
pub mod Finding
pub mod Laws
pub mod proving
