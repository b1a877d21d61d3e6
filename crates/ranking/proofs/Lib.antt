pub mod RankOrderLaws
