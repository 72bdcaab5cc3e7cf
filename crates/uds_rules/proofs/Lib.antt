mod Beginnings
mod Bits
mod Spellings
mod Lists
mod Masks
mod Adding
mod Apart
mod SameKinds
mod ByPlaces
mod ReadBack
mod FirstBytes
mod RuleOf
mod Unders
mod KeptBytes
mod LegalRules
pub mod Promises
