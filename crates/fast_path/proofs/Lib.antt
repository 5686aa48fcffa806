pub mod RanLaws
pub mod TokensWrittenLaws
pub mod TokenLaws
