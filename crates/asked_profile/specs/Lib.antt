pub mod UnitWrongText
pub mod WrongText
pub mod Asked
pub mod Choice
pub mod Laws
