mod Answering
mod Batching
mod Creations
mod Paying
mod SeenCalls
mod SeenCreates
mod SeenKeepings
