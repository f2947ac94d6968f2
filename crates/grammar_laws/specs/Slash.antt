pub mod SlashLaws
pub mod TemplateLaws
