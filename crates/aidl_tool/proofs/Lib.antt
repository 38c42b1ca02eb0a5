mod Kept
mod Lacking
mod LineAt
mod OneRun
mod Phrases
mod ones
mod schemas
mod some
