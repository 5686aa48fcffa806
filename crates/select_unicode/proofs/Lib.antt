pub mod After
