-- What the proofs of other crates use of this crate's proofs. Declares nothing.
pub use Rattle.param_choose.proofs.Ends.{ends_occur}
pub use Rattle.param_choose.proofs.Mapped.{choice_mapped, choice-mapped, declared-mapped, free-mapped, held-mapped, hole_mapped, holes-mapped, local-at-mapped, member_mapped, members-seen, outer-mapped, parameter_renamed, present-mapped, sort-at-mapped, standing-mapped, template-seen, variable-at-mapped, variable_mapped}
