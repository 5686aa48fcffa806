pub mod LatestEnd
