pub mod Ranking
pub mod RankingLaws
