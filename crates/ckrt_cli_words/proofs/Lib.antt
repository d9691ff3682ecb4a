mod AddLemmas
mod MatchLemmas
mod NumberLemmas
mod ParseLemmas
mod SettingLemmas
mod TakenLemmas
