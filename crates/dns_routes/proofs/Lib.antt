pub mod KeyLaws
pub mod RouteLaws
pub mod PairLaws
pub mod SuffixLaws
