-- What is known of lists of a document.
pub use Rattle.vschema_json.proofs.Lists.{list_any_map}
