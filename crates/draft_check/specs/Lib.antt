pub mod Drafts
pub mod DraftLaws
