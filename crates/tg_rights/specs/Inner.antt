-- What private calls ask for and promise, and the laws that the types name as their own. No public clause cites it: a reader who checks the store needn't read it.
pub mod RightText
pub mod TypeLaws
