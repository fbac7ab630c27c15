-- What private calls ask for and promise. No public clause cites it, but for `values_left` of Supply: a reader who checks the store needn't
-- read the rest.
pub mod Beginning
pub mod Counting
pub mod GoingOn
pub mod Marks
pub mod Parts
pub mod Run
pub mod Supply
pub mod Telling
