mod Fine
mod NumberLines
mod Whole
mod Feeds
