pub mod WrittenTerms
pub mod WrittenTexts
pub mod Rewriting
pub mod Replacing
pub mod RewrittenVersions
pub mod Steps
