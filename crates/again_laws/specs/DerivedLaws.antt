pub mod DerivedLaws
pub mod TextsLaws
pub mod BytesLaws
