pub mod Sent
pub mod Handshake
pub mod StreamLemmas
pub use Rattle.session.proofs.Sent as SentPasses
pub use Rattle.session.proofs.Steps
pub use Rattle.session.proofs.Typing
pub use Rattle.session.proofs.Among
pub use Rattle.session.proofs.Keeping
