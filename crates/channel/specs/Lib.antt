pub mod Channel
