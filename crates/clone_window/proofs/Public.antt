-- What the proofs of other crates use of this crate's proofs. Declares nothing.
pub use Rattle.clone_window.proofs.Equivalence.{all-as-many, as-many-here, name-refl, name-sym, name-trans, number-sym, number-trans, same-refl, same-sym, same-trans}
pub use Rattle.clone_window.proofs.Named.{fields-refl, fields-sym, fields-trans}
pub use Rattle.clone_window.proofs.Opened.{view_out}
pub use Rattle.clone_window.proofs.RunParts.{drop-both}
pub use Rattle.clone_window.proofs.Sizes.{masses-few}
pub use Rattle.clone_window.proofs.Walks.{views-at}
