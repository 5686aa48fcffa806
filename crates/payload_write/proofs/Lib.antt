pub mod Parts
pub mod Short
pub mod PutLaws
pub mod WriteLaws
