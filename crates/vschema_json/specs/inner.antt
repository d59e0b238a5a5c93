pub mod NameOrdinals
