pub mod TokensWritten
pub mod Puts
