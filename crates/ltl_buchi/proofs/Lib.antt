pub mod TranslationLaws
