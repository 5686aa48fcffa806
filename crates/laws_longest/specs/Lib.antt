pub mod LongestEnd
