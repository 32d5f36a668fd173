-- Laws of kinds of field.
pub mod Laws
pub mod Word
