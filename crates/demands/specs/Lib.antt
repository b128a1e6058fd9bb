-- What any run of the product's calls comes to, in the order in which it reads best:
-- Sets: what one change sets. Demand3: a party's edits, undos and folds. Across: sheets among them. Parties: two parties that share a journal.
-- Folds: fold's laws, of any records. Checked: a checked edit beside the plain one. Retired: new edits of forms that are retired, and old
-- records of them. Reached: an edit to a wanted target. Order: when the order of edits does not matter. Scripts: scripts among them. Old: journals from before records had
-- a slot, a form and a value.
pub mod Sets
pub mod Demand3
pub mod Across
pub mod BySheet
pub mod Parties
pub mod Folds
pub mod Checked
pub mod Retired
pub mod Reached
pub mod Order
pub mod Scripts
pub mod Old
