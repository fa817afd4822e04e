-- What the proofs of other crates use of this crate's proofs. Declares nothing.
pub use Rattle.go_types.proofs.Containment.{declared_or_not, listed_right}
pub use Rattle.go_types.proofs.Countings.{count_rises}
pub use Rattle.go_types.proofs.FieldPlacing.{field_within}
pub use Rattle.go_types.proofs.NumberedTypes.{type_of_longer, type_of_shape}
pub use Rattle.go_types.proofs.Places.{all_at, all_of, get_last, get_left, get_set_other, get_there, get_within}
pub use Rattle.go_types.proofs.Settling.{declared_within}
pub use Rattle.go_types.proofs.ShapeKeys.{same_shape}
pub use Rattle.go_types.proofs.TreeIdentity.{equal_trees, identical_equal}
pub use Rattle.go_types.proofs.Underlyings.{comparable_right, declared_type, element_comparable, field_comparable, right_type, same_right}
