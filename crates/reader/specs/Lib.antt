pub mod Described
pub mod Standing
pub mod Cursors
pub mod Actions
