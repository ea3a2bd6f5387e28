mod Places
mod Read
