pub mod KeywordReach
