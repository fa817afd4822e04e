pub mod Tags
pub mod Nodes
pub mod Held
pub mod State
pub mod Signatures
pub mod Walks
pub mod Types
pub mod Bodies
