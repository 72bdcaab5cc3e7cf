mod Behind
mod SpelledIdentifiers
mod RightKeys
mod OrderedRules
mod LegalUnits
mod FirstClash
mod FirstWrong
mod LegalProfiles
pub mod Promises
