mod HandleLemmas
mod Worked
