pub mod Mini
