-- What the proofs of other crates use of this crate's proofs. Declares nothing.
pub use Rattle.go_heads_types.proofs.Sited.{Agreed, IsAgreed, SiteSays, SourceOut, file_agreed}
