mod Walks
pub mod JoinedMoments
pub mod ImageLemmas
mod BytesLemmas
pub mod PendingLemmas
mod ChosenLemmas
pub mod CallLemmas
mod ContentsLemmas
mod LogLemmas
pub mod FileLemmas
pub mod FuseLemmas
mod Worked
