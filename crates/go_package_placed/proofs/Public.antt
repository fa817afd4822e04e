-- What the proofs of other crates use of this crate's proofs. Declares nothing.
pub use Rattle.go_package_placed.proofs.Found.{IsHeld, IsOwn, NoObject, all_apart, all_own}
pub use Rattle.go_package_placed.proofs.Imports.{IsChosen, IsSelected, file_chosen}
pub use Rattle.go_package_placed.proofs.Rows.{object_token}
pub use Rattle.go_package_placed.proofs.Telling.{Says, is_quiet, says_first, says_own, says_parts, says_rest}
pub use Rattle.go_package_placed.proofs.Tidy.{AreTidy, IsTidy, expression_is_tidy, is_simple, may_stand, signature_is_tidy, type_is_tidy}
